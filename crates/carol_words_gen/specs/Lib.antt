pub mod Gen

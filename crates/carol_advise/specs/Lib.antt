pub mod Tried
pub mod Attempts
pub mod Advised

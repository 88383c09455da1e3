mod Stepping
mod Dealing
mod Going
mod Crossing
mod Bounding
mod Steps

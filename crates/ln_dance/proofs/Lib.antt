pub mod Kept
pub mod Faces
pub mod Parted

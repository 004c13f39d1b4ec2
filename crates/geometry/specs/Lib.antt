pub mod SmallFaces

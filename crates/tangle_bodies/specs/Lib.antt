pub mod Shapes
pub mod Flat
pub mod WebShapes
pub mod Meaning
pub mod Nodes
pub mod Tags
pub mod ItemTags
pub mod NodeBodies

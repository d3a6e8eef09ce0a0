pub mod Shape
pub mod ShapeSteps
pub mod Counts
pub mod Order
pub mod Subtree
pub mod Rises
pub mod KeySteps
pub mod Laws

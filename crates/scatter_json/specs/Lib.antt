pub mod JsonForm
pub mod JsonText
pub mod Parts
pub mod Laws

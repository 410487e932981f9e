pub mod Laws
pub mod Letter
pub mod Name
pub mod Order

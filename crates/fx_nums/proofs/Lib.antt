pub mod Denominators
pub mod EndLaws
pub mod Narrow
pub mod ProductLaws
pub mod QuotientLaws
pub mod Reciprocals
pub mod WholeLaws

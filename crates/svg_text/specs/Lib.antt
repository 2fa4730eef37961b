pub mod Filling
pub mod Grids
pub mod Shapes
pub mod Marks
pub mod Endings
pub mod SvgTexts

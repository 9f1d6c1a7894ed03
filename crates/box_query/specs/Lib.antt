pub mod Boxes
pub mod BoxText
pub mod Outcome
pub mod Cut
pub mod Asked
pub mod NodeBoxes

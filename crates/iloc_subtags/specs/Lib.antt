pub mod Judging
pub mod KindLaws
pub mod ParseError
pub mod RawForms
pub mod Lengths
pub mod FirstLength
pub mod Left
pub mod NextPiece

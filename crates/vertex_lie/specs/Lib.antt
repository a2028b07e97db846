pub mod Shown
pub mod Leading
pub mod Logarithm
pub mod RationalBracket
pub mod Laws

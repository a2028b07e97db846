pub mod Zips
pub mod OneReading
pub mod LineTerms
pub mod FileLines
pub mod WrittenValues
pub mod OneText

pub mod Texts
pub mod Marks
pub mod Reasons
pub mod Printed

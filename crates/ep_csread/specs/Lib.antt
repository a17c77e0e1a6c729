pub mod Syntax
pub mod Spelling
pub mod Reading
pub mod Answer
pub mod Before
pub mod Grammar
pub mod Built
pub mod Views

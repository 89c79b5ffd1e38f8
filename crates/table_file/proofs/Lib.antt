-- Laws of reading a table file.
pub mod ListedLaws
pub mod FileLaws
pub mod AsListedLaws
pub mod ReadLaws
pub mod FileTableLaws

-- Laws of images, of their conversion, of tables of brackets, of the old benches' descriptors and of needs.
pub mod WriteLaws
pub mod ImageLaws
pub mod WrittenLaws
pub mod CutLaws
pub mod LastLaws
pub mod FrontLaws
pub mod OverwrittenLaws
pub mod OnceLaws
pub mod ConvertLaws
pub mod BracketLaws
pub mod BracketingLaws
pub mod OldLaws
pub mod NeedsLaws
pub mod NeededLaws

pub mod FieldLaws
pub mod HashLaws
pub mod SearchLaws
pub mod SweepLaws
pub mod CallLaws
pub mod MakingLaws

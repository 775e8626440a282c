pub mod Files
pub mod FilesLaws
pub mod Left
pub mod LeftLaws
pub mod OverDisk
pub mod OverDiskLaws

pub mod Image
pub mod Journal
pub mod Disks
pub mod Open
pub mod Steps
pub mod Cause

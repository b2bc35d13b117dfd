pub mod FilesLemmas
mod DiskSteps

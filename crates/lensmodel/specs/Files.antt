-- What the files say, line by line, and how they fit together.
pub mod Catalogue
pub mod Causes
pub mod CertValue
pub mod Job
pub mod JobFaults
pub mod Joining
pub mod Lens
pub mod LensFaults
pub mod LensFile
pub mod Picking
pub mod Records
pub mod TextLines
pub mod Tolerances

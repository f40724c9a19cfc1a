pub mod Options
pub mod TextLines
pub mod VolfilePrint
pub mod VolfileText
pub mod VolumeNames
pub mod Volumes

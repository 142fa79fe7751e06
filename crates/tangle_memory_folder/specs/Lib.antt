pub mod MemoryFolder

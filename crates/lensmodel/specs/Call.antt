-- The top call: the words, the files, the answer and the meaning of each command.
pub mod Answer
pub mod First
pub mod Glass
pub mod Index
pub mod Inputs
pub mod Read
pub mod Seidel
pub mod TopCall
pub mod Trace
pub mod TraceJson

pub mod Accepting
pub mod Answering
pub mod Backwards
pub mod Breaks
pub mod BackwardLaws
pub mod CommandLaws
pub mod Flushing
pub mod ForwardLaws
pub mod Forwards
pub mod Halts
pub mod Keeping
pub mod Obeying
pub mod RedoLaws
pub mod Redoing
pub mod Running
mod Undone
pub mod Watching
pub mod WatchRuns
mod WholeScripts
pub mod Advancing
pub mod GoingOver

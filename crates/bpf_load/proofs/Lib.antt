pub mod ProgramKinds

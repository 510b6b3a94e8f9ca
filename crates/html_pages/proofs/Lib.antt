pub mod ShellLemmas

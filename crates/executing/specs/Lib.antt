pub mod Exec

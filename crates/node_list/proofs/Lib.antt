pub mod Lines
mod Tops
mod Stacks

mod Tables
mod Buffers

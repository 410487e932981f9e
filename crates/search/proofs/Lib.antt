pub mod Halving
mod Probes

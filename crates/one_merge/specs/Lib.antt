pub mod OneMerge

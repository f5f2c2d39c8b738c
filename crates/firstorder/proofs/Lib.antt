mod Advancing
mod Choices
mod Counts
mod Firsts
mod Onwards
mod Parts
mod Samples

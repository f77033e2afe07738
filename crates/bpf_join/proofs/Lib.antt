mod Asked
mod Joining

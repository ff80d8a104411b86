mod Pieces
mod Fronts
mod Mapping

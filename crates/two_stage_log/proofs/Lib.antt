mod Fronts
mod Order

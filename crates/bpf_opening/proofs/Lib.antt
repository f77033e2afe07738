mod Items
mod Values

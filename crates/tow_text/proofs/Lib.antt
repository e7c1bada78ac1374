mod Blanks
mod Fronts
mod Named
mod Numbers

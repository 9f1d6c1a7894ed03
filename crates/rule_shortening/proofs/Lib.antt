mod Fronts
mod Named
mod Outcomes
mod Shorter

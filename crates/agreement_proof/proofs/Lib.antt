mod Answering
mod Trees
mod Outcomes
mod Listing
mod Taken
mod Whole
mod Opens
mod Words

mod Heading
mod Lining
mod Listing
mod Readings
mod Repeats
mod Sameness

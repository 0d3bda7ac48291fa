mod Endings
mod Lists
mod Settlements
mod Sizes
mod Soundness

mod Listings
mod Looks

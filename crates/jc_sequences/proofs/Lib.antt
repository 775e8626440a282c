mod Calls
mod Closing
mod Lending
mod Listed
mod SeenNone

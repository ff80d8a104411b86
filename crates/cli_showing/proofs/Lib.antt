mod Detailed
mod Under

pub mod Passing
pub mod Lists
pub mod Taking
pub mod Delivery
pub mod Room

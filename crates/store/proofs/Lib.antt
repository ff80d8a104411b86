mod Ordered
mod Over
mod Looking
mod Again
mod Reopened
mod Crashed

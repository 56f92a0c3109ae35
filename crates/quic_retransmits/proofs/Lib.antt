mod IdSteps
mod Lasts
mod Ranges

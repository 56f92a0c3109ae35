pub mod Parameters
pub mod ParametersRead
pub mod ParametersWritten
pub mod ParametersCode
pub mod ParametersSteps
pub mod ParametersTable
pub mod ParametersLaw
pub mod ParametersFound

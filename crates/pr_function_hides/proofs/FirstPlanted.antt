-- That of the functions at one address truss plants the first alone.
pub mod FirstFunctions
pub mod FirstLaw

mod LastPlaces
mod Gathered
mod SuiteSets
mod StandingMaps
mod Parts
mod SuiteSteps

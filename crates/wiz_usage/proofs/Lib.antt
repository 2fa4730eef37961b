mod LineLaws
mod PlaceLines
mod FaultLines

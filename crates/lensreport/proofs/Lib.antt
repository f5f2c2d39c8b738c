mod Aspheres
mod JsonObjects
mod JsonTexts
mod Spots
mod Totals

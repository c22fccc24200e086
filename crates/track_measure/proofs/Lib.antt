mod OtherIds
mod NewIds
mod ShapeKept
mod LinesTold
mod Ends
mod Whole

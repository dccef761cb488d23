-- The theorems on the definitions in specs/, and what they are proved with.
mod Modes
mod Rooms

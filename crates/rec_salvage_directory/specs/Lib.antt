pub mod RunFiles

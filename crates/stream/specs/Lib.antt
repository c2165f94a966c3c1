-- A run whose input is read window by window (R243 to R248).
pub mod Window

pub mod Acknowledgement
